mod DueLeases
mod PackageTests
mod PackageSizes
mod SegmentPages
mod ContestLines
mod QuotedBack
mod FaultyLines
