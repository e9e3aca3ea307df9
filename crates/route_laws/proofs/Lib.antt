mod Spelling
mod Seeking
mod Numerals
mod Walking
mod Patterns
mod RoutedRequests
mod Queries
