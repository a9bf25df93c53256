mod Digits
