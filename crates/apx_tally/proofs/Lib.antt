mod Last
mod Counting
mod Reporting
