-- Laws of the joint quote.
pub mod JointRivals
pub mod Joining
pub mod AsSecond
pub mod JointDemand
pub mod JointQuoting
pub mod Cases
