mod Judging
mod Verdicts
