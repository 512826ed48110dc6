pub mod Goes
pub mod Follow
pub mod Counts
