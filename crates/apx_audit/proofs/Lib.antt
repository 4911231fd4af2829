pub mod Words
pub mod Numbers
pub mod Lines
pub mod Journals
pub mod Verdicts
pub mod Judging
pub mod Deciding
pub mod Ending
