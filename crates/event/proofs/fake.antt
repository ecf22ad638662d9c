mod Fake
