-- The search of document 01, over the count of cells and the order of picks as parameters; its promise and its reply.
pub mod Search
pub mod SearchPromise
pub mod Boards
pub mod Smallest
pub mod Reply
