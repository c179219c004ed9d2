mod Marks
