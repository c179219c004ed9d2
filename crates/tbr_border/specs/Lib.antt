pub mod Cell
pub mod Border
pub mod BorderView
pub mod RenderLine
