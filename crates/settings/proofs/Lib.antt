pub mod SheetWalk
