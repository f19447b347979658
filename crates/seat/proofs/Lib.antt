mod Next
pub mod Laws
