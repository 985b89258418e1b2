pub mod SameCalls
