pub mod ShiftLaws
