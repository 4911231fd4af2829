pub mod KeyNumber
