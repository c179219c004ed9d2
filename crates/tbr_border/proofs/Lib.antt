pub mod Common
pub mod StraightCells
pub mod BorderText
pub mod HolesInOrder
pub mod JoinedCells
