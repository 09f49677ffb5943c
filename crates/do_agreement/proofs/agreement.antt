pub mod AgreesFits
pub mod OpeningAgrees
pub mod StepsAgree
pub mod GoesOn
pub mod SchedulesAgree
pub mod SnapshotsAgree
