pub mod RecordsBehind
pub mod WovenSchedule
