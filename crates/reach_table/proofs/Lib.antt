mod ReachLemmas
mod CountLemmas
