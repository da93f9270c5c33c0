mod FillPairs
