pub mod Common
pub mod ShownLines
pub mod ScriptRefusals
pub mod Walks
pub mod ScriptLevels
