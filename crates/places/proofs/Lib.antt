-- Request No. 11: comparing places is comparing hands, each place occurs, and so it is at a showdown.

pub mod Weighed
pub mod Worth
pub mod Dealt
pub mod Fives
pub mod Compared
pub mod Showdown
