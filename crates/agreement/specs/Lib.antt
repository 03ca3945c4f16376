pub mod FairLine
