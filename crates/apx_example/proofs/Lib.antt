mod Json
mod Graph
mod Lines
mod Scripts
mod Accepting
