-- Request No. 7: the royal flush that wins the pool.
pub mod Royal
pub mod Apart
