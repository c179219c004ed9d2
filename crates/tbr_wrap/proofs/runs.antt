pub mod Blocks
pub mod BlockLaws
pub mod HeldRuns
pub mod RuleWidths
pub mod EndedRuns
pub mod FittingLines
pub mod LinesLeft
pub mod ShownMeanings
