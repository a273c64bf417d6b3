pub mod Answers
pub mod Stacks
pub mod Texts
pub mod Trees
pub mod Views
