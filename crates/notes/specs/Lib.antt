-- What the supervisor's page keeps between two blocks.
pub mod Notes
