pub mod Keys
pub mod ScanLaws
pub mod StepLaws
pub mod TokenFacts
pub mod Passed
pub mod VersionLaws
