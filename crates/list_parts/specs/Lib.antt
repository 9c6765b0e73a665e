-- Header and entry of a list in formulas: what their bytes are, and how they are checked and read. The walk over entries stands with them, for any layout.
pub mod Header
pub mod Layout
pub mod Entries
pub mod Parts
