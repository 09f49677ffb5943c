pub mod ChainAnswers
pub mod ExactReader
pub mod FormsExact
pub mod WholeExact
pub mod ScanExact
pub mod UntilSteps
pub mod UntilExact
pub mod OneSpellingExact
