mod Worked
mod Growing
