mod AsksBySort
