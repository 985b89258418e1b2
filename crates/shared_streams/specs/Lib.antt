pub mod Books
pub mod Feeds
pub mod Relays
pub mod Ledger
pub mod SharedStreams
