mod Pieces
mod Walls
