pub mod OperationLaws
pub mod MachineExamples
pub mod Determined
pub mod FormLaws
pub mod MeetingLaws
pub mod InputLemmas
