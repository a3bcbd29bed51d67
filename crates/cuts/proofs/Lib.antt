-- Lines cut after 33 bytes read as the lines themselves.
pub mod Lines
