mod Places
mod Reports
mod Texts
