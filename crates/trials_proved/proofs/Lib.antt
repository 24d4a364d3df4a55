-- P1 to P8 of document 01 and the pass of document 02, Paper 4, proved of the definitions.
pub mod Opened
pub mod Table
