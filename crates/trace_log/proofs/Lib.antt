mod NoteLines
