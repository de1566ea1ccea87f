mod CountLemmas
pub mod FloodLemmas
pub mod ThreadLemmas
pub mod HandLemmas
mod NoteLemmas
mod WorkLemmas
mod DeskLemmas
