mod Due
mod Singles
