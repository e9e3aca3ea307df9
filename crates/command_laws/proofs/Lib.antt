mod Said
mod Walks
mod Entering
mod Leaves
mod AnyOrder
