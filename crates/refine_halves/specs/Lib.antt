pub mod HalfBoards
