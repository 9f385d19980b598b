pub mod Refusals
pub mod Relations
pub mod Trees
pub mod Rules
pub mod Checked
pub mod Laws
