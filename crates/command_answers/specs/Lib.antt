pub mod Statuses
pub mod Answers
pub mod Lines
pub mod Replies
pub mod Saying
