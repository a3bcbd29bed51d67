-- Laws of the pool: one hand (Hands), and the books of an evening of two tables (Books).

pub mod Hands
pub mod Books
