-- What a block shows of each hard line, in a run of one preserving mode.
pub use Rattle.tbr_model.proofs.pre.HardLine.{pre_shown}
pub use Rattle.tbr_model.proofs.prewrap.HardLine.{prewrap_shown}
pub use Rattle.tbr_model.proofs.tabs.HardLine.{tabs_shown}
