mod Blanks
mod Cuts
mod Ends
