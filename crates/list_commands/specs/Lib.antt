-- The definitions that the contracts of crate `list_commands` cite.
pub mod PoisonCommands
pub mod Relations
