mod Leaf
