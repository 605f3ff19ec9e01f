-- Sets of attributes and of subjects, as the numbers that the machine's words are.
pub mod Sets
