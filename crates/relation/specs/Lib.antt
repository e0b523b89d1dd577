-- Boolean relations: the definitions of source 001, sections 4 and 5, the tests that decide them, relations handed over as numbers, and two of them joined.
pub mod Source
pub mod Tests
pub mod Handed
pub mod Families
pub mod Joined
pub mod Inner
