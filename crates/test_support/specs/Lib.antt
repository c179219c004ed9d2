pub mod EveryOne
pub mod NoEmSpace
pub mod Marks
pub mod Voices
