pub mod Turned
mod Numbers
mod Words
mod Strings
