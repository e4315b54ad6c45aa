pub mod Class
pub mod Grouped
pub mod Laws
pub mod Partial
pub mod Slack
pub mod Walk
