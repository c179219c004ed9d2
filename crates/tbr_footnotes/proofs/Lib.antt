pub mod CutLines
