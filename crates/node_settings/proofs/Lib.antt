mod Decimals
mod Numbers
mod Agreeing
mod Commands
mod Lines
